pub mod Fault
pub mod Numbered
pub mod Owners
pub mod Trials
pub mod Lines
