pub mod Notes
pub mod Fits
pub mod Meshes
pub mod Clouds
pub mod Lending
pub mod Geometries
pub mod Codes
