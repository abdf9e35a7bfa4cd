pub mod Constant
pub mod Atom
pub mod Seen
