pub mod Acyclic
pub mod Heights
pub mod Walk
pub mod Buckets
