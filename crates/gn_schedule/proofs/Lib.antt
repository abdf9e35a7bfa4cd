pub mod Reading
pub mod Planning
pub mod Asking
mod Examples
