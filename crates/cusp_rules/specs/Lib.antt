pub mod Hosts
pub mod Assignment
pub mod Formulas
pub mod Blocks
pub mod Bounds
pub mod Laws
