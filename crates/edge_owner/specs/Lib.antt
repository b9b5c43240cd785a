pub mod Grid
pub mod Owner
pub mod Laws
