pub mod Asks
pub mod Letters
pub mod Delivery
