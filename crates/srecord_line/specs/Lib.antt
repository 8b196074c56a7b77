pub mod LineForm
pub mod Line
pub mod LineLaws
pub mod LineRead
