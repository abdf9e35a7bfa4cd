mod Numbering
mod Adding
pub mod Accumulating
pub mod Registers
mod Examples
