pub mod Trees
pub mod Nodes
pub mod NodeKinds
pub mod Rising
pub mod Form
pub mod Coding
pub mod Seen
pub mod Smaller
