pub mod StartForm
pub mod Otherwise
pub mod Follows
pub mod Ranges
pub mod InTypes
pub mod Demand
pub mod Demand3
pub mod EvenTargets
