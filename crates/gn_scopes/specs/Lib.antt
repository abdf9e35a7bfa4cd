pub mod Settings
pub mod Groups
pub mod Scopes
pub mod Seen
