pub mod Graphs
pub mod Paths
