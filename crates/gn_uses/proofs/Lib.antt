pub mod Lists
pub mod Flags
pub mod Reading
pub mod Rooms
pub mod Marking
pub mod Following
pub mod Changing
pub mod Settling
pub mod Events
mod Examples
pub mod Opening
pub mod Adding
pub mod Keeping
pub mod Steps
pub mod Calls
