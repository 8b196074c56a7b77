pub mod Text
pub mod TextLaws
pub mod LengthLaws
pub mod WrittenLaws
pub mod Examples
