pub mod Survey
pub mod SurveyLaws
pub mod Chain
pub mod TableIs
pub mod ChainLaws
pub mod WritingLaws
pub mod Answers
