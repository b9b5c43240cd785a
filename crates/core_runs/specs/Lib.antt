pub mod ByPeeling
pub mod Laws
