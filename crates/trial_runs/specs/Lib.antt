pub mod Trials
pub mod Runs
