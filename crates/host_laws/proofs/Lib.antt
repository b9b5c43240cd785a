pub mod Closing
pub mod Beginning
pub mod Computing
pub mod Taking
pub mod Spreading
pub mod Telling
