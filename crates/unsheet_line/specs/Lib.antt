pub mod Table
pub mod Field
pub mod Targets
pub mod FieldLaws
