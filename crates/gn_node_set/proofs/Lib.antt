pub mod Lists
pub mod Paths
pub mod PathOrder
mod Examples
