pub mod Hosts
pub mod Lists
pub mod Text
pub mod Agreed
