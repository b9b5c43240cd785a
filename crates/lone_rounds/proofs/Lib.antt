pub mod Rounds
pub mod ArcOrder
pub mod RoundCount
