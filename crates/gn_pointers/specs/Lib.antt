pub mod Pointers
pub mod Texts
pub mod Seen
