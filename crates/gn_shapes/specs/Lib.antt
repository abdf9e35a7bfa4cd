pub mod Lines
pub mod Grids
pub mod Cuboids
