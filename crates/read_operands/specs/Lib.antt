pub mod Read
pub mod Part
pub mod ReadLaws
