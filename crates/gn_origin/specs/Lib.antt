pub mod Forms
pub mod Looking
pub mod Constants
pub mod Nodes
pub mod Frames
pub mod Reading
pub mod Walking
pub mod Moves
