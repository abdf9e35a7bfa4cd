pub mod Constants
pub mod Reads
pub mod Finding
pub mod Tables
