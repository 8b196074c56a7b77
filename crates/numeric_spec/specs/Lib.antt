pub mod Entry
pub mod Payload
pub mod Form
pub mod Value
pub mod Take
pub mod Shape
pub mod Build
