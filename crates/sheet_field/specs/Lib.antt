pub mod Place
pub mod LineNumber
