pub mod RunAt
pub mod RunAtLaws
pub mod Depth
pub mod Groups
pub mod GroupLaws
