pub mod Takes
pub mod ReadAt
