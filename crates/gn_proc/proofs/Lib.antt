pub mod Tapes
pub mod Preparing
pub mod OneField
