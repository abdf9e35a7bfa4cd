pub mod Totals
pub mod Prefixes
pub mod Steps
pub mod Gives
mod Rows
