mod Places
pub mod SameText
pub mod SamePackets
