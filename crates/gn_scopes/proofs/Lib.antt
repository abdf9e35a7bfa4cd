pub mod Looking
pub mod Naming
pub mod Finding
pub mod Grouping
pub mod Leading
pub mod Turning
