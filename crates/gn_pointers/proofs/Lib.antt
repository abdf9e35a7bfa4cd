pub mod Order
pub mod First
pub mod Escaping
mod Examples
