pub mod Translated
pub mod StageLaws
pub mod PlaceLaws
pub mod Stages
pub mod Left
