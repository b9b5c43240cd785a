pub mod Runs
pub mod Packets
pub mod RunPackets
pub mod Laws
