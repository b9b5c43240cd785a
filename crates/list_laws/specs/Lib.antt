pub mod Rising
pub mod Among
pub mod Members
pub mod Bits
pub mod LittleEndian
