pub mod Cut
pub mod CutLaws
pub mod Pieces
pub mod Examples
