pub mod Near
pub mod Leads
pub mod Side
pub mod Reach
pub mod Right
pub mod Demand
pub mod Agree
pub mod Ranked
pub mod Plain
pub mod Walks
pub mod Tasks
pub mod Raised
pub mod Inner
pub mod Opens
mod Examples
mod Witness
