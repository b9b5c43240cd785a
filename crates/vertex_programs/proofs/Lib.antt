pub mod Numbers
pub mod Steps
pub mod LeastLabels
pub mod Ending
pub mod Fitting
pub mod Brought
pub mod Holding
pub mod GraphRuns
