pub mod Exact
pub mod Payload
pub mod Form
pub mod Length
pub mod Built
