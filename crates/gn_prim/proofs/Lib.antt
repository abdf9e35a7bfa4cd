pub mod Rows
pub mod Boxes
