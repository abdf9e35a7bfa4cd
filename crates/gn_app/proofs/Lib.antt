pub mod Telling
pub mod Leading
pub mod Preparing
pub mod Saying
pub mod Running
pub mod Spelling
mod Examples
mod Sample
