pub mod Numbers
mod Rows
pub mod Rising
pub mod Segments
pub mod Steps
pub mod Parts
