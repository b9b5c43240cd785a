pub mod Items
pub mod Values
pub mod Jobs
pub mod Refusal
pub mod Found
