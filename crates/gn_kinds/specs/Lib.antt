pub mod Row
pub mod Names
pub mod Text
pub mod Seen
pub mod Table
