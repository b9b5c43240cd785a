pub mod Pushing
pub mod StartItems
pub mod Needed
pub mod Woken
pub mod Settled
pub mod MastersSettle
