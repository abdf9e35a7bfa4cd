pub mod Anywhere
pub mod Counts
pub mod Moved
pub mod Appended
pub mod Validity
mod Examples
