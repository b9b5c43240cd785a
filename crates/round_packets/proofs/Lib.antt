pub mod Turns
pub mod Shares
pub mod Absorbing
pub mod Given
pub mod Carried
pub mod Kept
pub mod SameBytes
pub mod PacketForms
