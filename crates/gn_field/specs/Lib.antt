pub mod Steps
pub mod Trees
pub mod Kinds
pub mod Merged
pub mod Codes
pub mod Faults
pub mod Contexts
pub mod Together
