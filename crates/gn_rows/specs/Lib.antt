pub mod Carried
pub mod Limits
pub mod SetPosition
pub mod Moves
pub mod Choices
pub mod Imports
pub mod Library
