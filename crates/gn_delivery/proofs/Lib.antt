pub mod Slotting
pub mod Planning
pub mod Marking
pub mod Planned
mod Examples
