pub mod WordsLaws
pub mod RefusalLaws
