mod Rows
pub mod Digits
pub mod Exponents
pub mod Kept
pub mod Nearest
pub mod Padding
pub mod Printing
pub mod Reading
pub mod Units
pub mod Writing
