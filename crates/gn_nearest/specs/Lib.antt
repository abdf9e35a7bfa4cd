pub mod Nearest
pub mod Boxes
