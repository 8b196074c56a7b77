pub mod Blocks
pub mod BlockLaws
