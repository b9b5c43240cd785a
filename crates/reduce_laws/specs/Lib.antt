pub mod WordLaws
pub mod NumberWords
pub mod ReductionLaws
pub mod CombinedLaws
pub mod Reducers
pub mod ReducerLaws
pub mod ProgramLaws
