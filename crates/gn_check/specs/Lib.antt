pub mod Finds
pub mod Zones
pub mod Answers
