pub mod Clearing
pub mod Runs
