pub mod Numbers
pub mod Closed
pub mod Each
pub mod Faces
pub mod Good
pub mod Valid
pub mod Spelled
