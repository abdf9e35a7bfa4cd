mod Examples
pub mod Digits
pub mod Growth
pub mod Repeats
pub mod Rows
