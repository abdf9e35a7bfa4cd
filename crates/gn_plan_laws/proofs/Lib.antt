pub mod Reading
pub mod Ways
pub mod Inputs
pub mod Demanding
pub mod Standing
pub mod Planned
