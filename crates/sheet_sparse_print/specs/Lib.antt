pub mod Counted
pub mod CountedLaws
pub mod ListableLaws
