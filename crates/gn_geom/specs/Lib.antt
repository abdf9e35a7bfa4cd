pub mod Meshes
pub mod Geometries
pub mod Faults
pub mod Faces
