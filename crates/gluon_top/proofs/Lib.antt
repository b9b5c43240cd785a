pub mod Loading
pub mod Running
pub mod Rounds
pub mod Asking
pub mod Outcomes
pub mod Ranges
