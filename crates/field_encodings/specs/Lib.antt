pub mod Lengths
pub mod Forms
pub mod Packets
pub mod Checks
pub mod Laws
pub mod Lists
pub mod Places
pub mod EntryOrder
