pub mod Limits
pub mod Few
pub mod Gathered
pub mod Turns
pub mod Soles
pub mod Gathering
pub mod Sides
pub mod JoinedWhole
