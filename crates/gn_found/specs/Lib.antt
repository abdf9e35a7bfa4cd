pub mod Claims
pub mod Filled
pub mod Bodies
