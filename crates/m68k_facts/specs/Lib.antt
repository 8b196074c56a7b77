pub mod Measure
pub mod Lays
pub mod Laws
pub mod Cases
pub mod Sizes
pub mod Remainders
pub mod ShortBranches
