pub mod Labels
pub mod Programs
pub mod Laws
pub mod LabelPackets
pub mod RunLaws
