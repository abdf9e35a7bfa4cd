pub mod Marks
pub mod Joins
pub mod FaceLemmas
mod Examples
