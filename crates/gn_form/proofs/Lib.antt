pub mod Elements
pub mod Sorted
pub mod Exact
