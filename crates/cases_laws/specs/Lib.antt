pub mod Sheets
pub mod Negatives
