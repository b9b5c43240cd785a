mod Spaced
pub mod Hexadecimal
