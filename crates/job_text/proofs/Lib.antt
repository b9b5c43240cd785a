pub mod AnswerLines
pub mod OwnerLines
