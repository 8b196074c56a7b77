pub mod Numbers
pub mod PushedLaws
pub mod Places
