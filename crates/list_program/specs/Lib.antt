pub mod Cases
pub mod AnsweredLaws
