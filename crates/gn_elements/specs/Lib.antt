pub mod References
pub mod Rules
pub mod Digits
pub mod Read
pub mod Faults
pub mod Growing
pub mod Steps
pub mod Seen
