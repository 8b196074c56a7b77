pub mod Kept
pub mod Step
pub mod RunLaws
pub mod Examples
