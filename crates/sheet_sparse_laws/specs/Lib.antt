pub mod Ways
pub mod Followed
pub mod Cases
