pub mod HostState
pub mod Serving
pub mod Gained
pub mod Posting
pub mod OwnEffects
