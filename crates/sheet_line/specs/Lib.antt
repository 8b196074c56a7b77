pub mod Value
pub mod LineMade
pub mod LineRead
pub mod Reading
pub mod Aimed
