pub mod Listing
pub mod ListingLaws
pub mod PrintedLaws
pub mod Examples
