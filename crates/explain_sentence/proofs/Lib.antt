pub mod Laws
pub mod SentenceLaws
