pub mod HostByHost
pub mod Masters
pub mod Texts
