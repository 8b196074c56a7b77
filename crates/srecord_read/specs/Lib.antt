pub mod Line
pub mod Text
pub mod Words
pub mod PairLaws
pub mod LineLaws
pub mod WordLaws
pub mod TextLaws
pub mod Examples
