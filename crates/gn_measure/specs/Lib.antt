pub mod Capped
pub mod Measures
