pub mod State
pub mod Answers
pub mod Printed
pub mod Pushed
pub mod Headers
pub mod Lengths
