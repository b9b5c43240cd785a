pub mod Stream
pub mod Made
pub mod Facts
pub mod Values
