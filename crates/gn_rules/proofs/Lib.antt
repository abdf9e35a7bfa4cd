pub mod Exact
pub mod Named
mod Examples
