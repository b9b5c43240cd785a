pub mod Order
pub mod Table
pub mod Block
pub mod Lending
