pub mod Combining
pub mod Reordering
