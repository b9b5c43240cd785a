pub mod Moves
pub mod Fronts
pub mod Readings
pub mod Writings
pub mod Texts
pub mod Pages
pub mod Flushes
