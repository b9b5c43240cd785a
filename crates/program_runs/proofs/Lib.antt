pub mod Endings
pub mod RoundsEnd
