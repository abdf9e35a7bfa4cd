pub mod Arrays
pub mod Count
pub mod Machine
pub mod Sharing
pub mod Writing
pub mod Events
