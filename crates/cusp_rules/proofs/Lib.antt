pub mod Counts
pub mod BoundCounts
pub mod Holds
pub mod Cuts
pub mod Firsts
pub mod Formed
