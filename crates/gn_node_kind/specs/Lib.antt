pub mod Named
pub mod Kinds
pub mod Written
pub mod Seen
pub mod Claims
