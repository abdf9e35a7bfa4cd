pub mod Arguments
pub mod Outputs
pub mod Kinds
