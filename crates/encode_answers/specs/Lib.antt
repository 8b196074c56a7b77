pub mod Places
pub mod AnswerLaws
