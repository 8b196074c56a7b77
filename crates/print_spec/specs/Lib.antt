pub mod EncodeAnswer
pub mod BytesAnswer
pub mod Run
pub mod ReadAnswer
pub mod Printed
pub mod Programs
