mod Lists
mod Steps
pub mod Orders
mod Faces
pub mod Turning
mod Examples
