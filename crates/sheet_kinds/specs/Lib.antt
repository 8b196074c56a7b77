pub mod Packed
pub mod Weight
pub mod Next
pub mod NextLaws
pub mod Ahead
