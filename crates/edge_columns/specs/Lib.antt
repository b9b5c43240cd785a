pub mod Starts
pub mod Columns
