pub mod Arithmetic
pub mod Operations
pub mod Registers
pub mod Rows
pub mod Values
