pub mod Transforms
pub mod Joins
pub mod Appended
pub mod Limits
pub mod Realized
