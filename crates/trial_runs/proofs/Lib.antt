pub mod Bounds
pub mod Light
pub mod Counts
pub mod AtLast
pub mod FromRuns
pub mod Asking
