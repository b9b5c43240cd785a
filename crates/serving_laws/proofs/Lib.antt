pub mod Proxies
pub mod Knowing
pub mod Taking
pub mod Gaining
pub mod Posting
pub mod Computing
pub mod Spreading
