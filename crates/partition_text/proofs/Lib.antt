pub mod FewHosts
pub mod ListLines
