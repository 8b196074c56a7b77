pub mod Exactly
pub mod Shown
pub mod Operands
pub mod Never
pub mod Lines
pub mod AsRead
pub mod Whole
pub mod Cases
