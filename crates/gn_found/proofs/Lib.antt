pub mod Edges
pub mod Back
pub mod Linked
pub mod Differ
pub mod Filling
pub mod Exist
pub mod Bodies
mod Examples
