pub mod Lowered
pub mod Claims
pub mod Carried
pub mod Unfolding
pub mod Events
