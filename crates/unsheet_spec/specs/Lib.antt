pub mod Lines
pub mod Text
pub mod Unsheet
pub mod Printed
pub mod Promises
