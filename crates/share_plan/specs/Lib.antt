pub mod Owners
pub mod Plan
pub mod Laws
