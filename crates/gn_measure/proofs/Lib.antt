pub mod Capping
pub mod Within
pub mod Alike
