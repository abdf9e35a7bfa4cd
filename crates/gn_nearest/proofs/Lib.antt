pub mod Ranks
pub mod Parts
pub mod Growth
pub mod Listed
pub mod Trees
pub mod Rows
