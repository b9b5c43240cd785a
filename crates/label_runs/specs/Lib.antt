pub mod ByWalks
pub mod Laws
