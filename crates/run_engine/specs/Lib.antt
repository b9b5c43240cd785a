pub mod Running
pub mod Outcome
pub mod Quiet
pub mod Rounds
pub mod Ending
