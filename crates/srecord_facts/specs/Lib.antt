pub mod Bytes
pub mod Digits
pub mod Writing
pub mod Lines
pub mod Refused
pub mod Printing
pub mod Loading
