pub mod Listed
pub mod GraphArcs
pub mod PrunedLists
pub mod Partitions
pub mod Grouped
pub mod FileOrder
