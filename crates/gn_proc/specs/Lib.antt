pub mod Tapes
pub mod Faults
pub mod Prepared
