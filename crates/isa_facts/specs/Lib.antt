pub mod Code
pub mod Condition
pub mod Field
pub mod Mode
pub mod Ordinary
