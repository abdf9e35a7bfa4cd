pub mod Sources
pub mod Stands
pub mod Order
pub mod Tasks
pub mod Zones
pub mod Claims
