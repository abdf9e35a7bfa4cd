pub mod Finding
pub mod Reading
pub mod Parts
pub mod Rows
pub mod Made
pub mod Ordered
