pub mod Lists
pub mod Underway
pub mod Start
pub mod News
pub mod Asking
pub mod TwoHosts
