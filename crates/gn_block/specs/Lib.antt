pub mod Parts
pub mod Sharing
pub mod Blocks
pub mod Names
pub mod Whole
