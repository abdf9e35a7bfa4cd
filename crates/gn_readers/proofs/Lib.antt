pub mod Noting
pub mod Places
mod Examples
