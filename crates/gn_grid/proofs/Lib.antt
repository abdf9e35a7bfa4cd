pub mod Cells
pub mod GridLaws
pub mod Growing
pub mod Sides
pub mod Making
