pub mod Fitting
pub mod Moved
pub mod Noted
pub mod Counts
pub mod Placed
pub mod PartTwins
pub mod GeometryTwins
mod Examples
