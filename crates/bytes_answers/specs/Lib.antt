pub mod Places
pub mod BytesLaws
