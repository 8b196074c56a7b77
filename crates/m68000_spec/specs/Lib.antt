pub mod Of68000
pub mod Reading68000
pub mod Read68000
pub mod Answer68000
pub mod Promises
