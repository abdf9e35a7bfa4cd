pub mod Numbers
pub mod Takings
pub mod Gathered
