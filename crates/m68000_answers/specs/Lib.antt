pub mod Kept
pub mod AnswerLaws
