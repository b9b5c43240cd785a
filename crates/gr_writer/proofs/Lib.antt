pub mod Ends
pub mod Parts
pub mod Sources
pub mod Again
