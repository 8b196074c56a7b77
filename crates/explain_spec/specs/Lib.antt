pub mod Table
pub mod Refusal
pub mod Sentence
pub mod Explained
