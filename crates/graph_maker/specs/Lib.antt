pub mod Words
pub mod MadeGraph
pub mod Summary
