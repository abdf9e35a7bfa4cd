pub mod States
pub mod Holds
pub mod Jobs
pub mod Starts
pub mod Waits
pub mod Finishes
