pub mod InTypes
