pub mod Column
pub mod File
pub mod ReadAgain
