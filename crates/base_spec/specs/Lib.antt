pub mod Signed
pub mod Parts
pub mod Number
pub mod Numbers
pub mod Written
pub mod Refused
pub mod Lines
