pub mod Grown
mod Same
mod SameTrees
mod Bare
mod Sourced
mod Merging
mod Joining
mod Roots
pub mod Facts
mod Owned
pub mod Together
mod Contexts
