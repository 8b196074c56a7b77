pub mod Passes
pub mod Settle
pub mod PassLaws
pub mod SettleLaws
pub mod Walks
