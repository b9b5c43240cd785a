pub mod LastBits
pub mod Members
pub mod Words
