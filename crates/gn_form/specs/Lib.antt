pub mod Form
pub mod Walk
pub mod Order
pub mod Seen
