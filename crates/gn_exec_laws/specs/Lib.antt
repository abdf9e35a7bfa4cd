pub mod Graphs
pub mod Fits
pub mod Machine
pub mod Claims
pub mod Tasks
