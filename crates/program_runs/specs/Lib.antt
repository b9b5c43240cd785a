pub mod Programs
pub mod LastRuns
pub mod Ends
