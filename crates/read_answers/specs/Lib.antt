pub mod Put
pub mod AnswerLaws
pub mod Examples
