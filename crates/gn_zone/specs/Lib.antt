pub mod Opens
pub mod Filled
