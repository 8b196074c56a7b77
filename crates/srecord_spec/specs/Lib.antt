pub mod Record
pub mod Write
pub mod Read
pub mod Printed
pub mod Promises
