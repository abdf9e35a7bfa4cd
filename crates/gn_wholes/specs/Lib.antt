pub mod Contexts
pub mod Covers
