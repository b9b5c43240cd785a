pub mod Cuts
pub mod Overlays
pub mod Orders
pub mod Holding
pub mod Flights
pub mod Fresh
