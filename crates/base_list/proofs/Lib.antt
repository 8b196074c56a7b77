pub mod HeaderIs
