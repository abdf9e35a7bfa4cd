pub mod Sorts
pub mod Shapes
pub mod Kept
pub mod Order
pub mod Counts
pub mod Growing
pub mod Fitting
pub mod Right
pub mod Safety
pub mod Waits
pub mod Ends
pub mod Narrows
pub mod Complete
pub mod Solution
pub mod Closure
pub mod Listed
pub mod Progress
pub mod Counted
pub mod Events
pub mod Shared
mod Small
mod Examples
