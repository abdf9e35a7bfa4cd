pub mod Names
pub mod Handles
pub mod Columns
pub mod Writing
pub mod Members
