pub mod Picked
pub mod Primitives
pub mod Components
pub mod Flips
pub mod Placing
pub mod Rows
