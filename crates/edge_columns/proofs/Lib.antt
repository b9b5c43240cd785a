pub mod Counts
pub mod SourceLaws
pub mod EdgeLaws
pub mod ColumnLaws
