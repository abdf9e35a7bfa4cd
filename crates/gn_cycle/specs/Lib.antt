pub mod Graph
pub mod Ways
pub mod Ranks
pub mod Search
