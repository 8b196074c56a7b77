pub mod Flat
pub mod Length
