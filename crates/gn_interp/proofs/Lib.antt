pub mod Pairs
pub mod Corners
pub mod Gathering
pub mod ByKind
pub mod Within
