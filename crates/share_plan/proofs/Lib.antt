pub mod StartsLaws
pub mod SideBySide
pub mod OwnersLaws
pub mod Partitions
pub mod Divisions
pub mod Lacks
