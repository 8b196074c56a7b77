pub mod Number
pub mod NumberLaws
pub mod Part
pub mod Operand
pub mod Taken
