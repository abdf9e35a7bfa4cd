pub mod Views
pub mod Behind
pub mod Heads
pub mod Lists
