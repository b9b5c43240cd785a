pub mod Held
pub mod Filled
pub mod FirstBits
pub mod Marked
pub mod Cleared
pub mod Ranked
pub mod Between
pub mod LastBits
