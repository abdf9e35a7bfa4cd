pub mod Evaluated
pub mod Putting
