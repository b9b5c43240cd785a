pub mod Told
pub mod Asks
pub mod Text
pub mod Lines
