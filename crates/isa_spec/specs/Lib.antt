pub mod Field
pub mod ExtensionWord
pub mod Code
pub mod Condition
pub mod IndexBase
pub mod Mode
pub mod Ordinary
