pub mod Cause
pub mod File
pub mod Reading
pub mod Reach
pub mod Sections
pub mod EdgeLists
pub mod ColumnLists
