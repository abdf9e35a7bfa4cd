pub mod Exact
pub mod Typed
pub mod Settings
pub mod Answers
