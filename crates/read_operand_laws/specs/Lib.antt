pub mod Stands
pub mod TailStands
pub mod Facts
pub mod TreeLaws
pub mod DisplacementLaws
pub mod IndexLaws
pub mod OperandLaws
pub mod TailLaws
