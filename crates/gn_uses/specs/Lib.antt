pub mod Sets
pub mod Nodes
pub mod Reading
pub mod Parts
pub mod Marks
pub mod Progress
pub mod Uses
pub mod Inside
