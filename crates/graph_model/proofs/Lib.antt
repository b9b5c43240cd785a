pub mod WalkLaws
pub mod LeastLaws
pub mod GraphFacts
pub mod ShortWalks
pub mod ArcSets
pub mod InnerDegrees
pub mod PeelLaws
