pub mod Found
pub mod Valued
pub mod Counted
mod Examples
