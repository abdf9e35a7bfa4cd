pub mod Ways
pub mod Marks
pub mod Ranking
pub mod Searching
