pub mod Closed
pub mod GraphRuns
