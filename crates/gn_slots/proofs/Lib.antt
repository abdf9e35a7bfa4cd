pub mod Running
pub mod Roots
pub mod Reading
