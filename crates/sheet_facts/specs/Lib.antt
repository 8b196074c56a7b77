pub mod Facts
pub mod Names
pub mod Fields
pub mod Lines
pub mod Listing
pub mod SheetLaws
pub mod Made
