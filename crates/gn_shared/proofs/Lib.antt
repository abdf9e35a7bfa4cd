mod CountRows
mod MachineRows
pub mod Lists
pub mod Kept
pub mod Laws
pub mod Writing
