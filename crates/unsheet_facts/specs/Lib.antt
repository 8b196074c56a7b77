pub mod Lines
pub mod Stages
