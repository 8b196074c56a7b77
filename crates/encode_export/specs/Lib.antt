pub mod Answer
pub mod Places
