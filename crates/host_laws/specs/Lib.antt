pub mod HostView
pub mod Standing
pub mod Effects
pub mod Laws
