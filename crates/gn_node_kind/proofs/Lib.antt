pub mod Lists
pub mod Many
pub mod Others
pub mod AsWritten
pub mod Covered
mod Examples
