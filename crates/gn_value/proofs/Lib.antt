pub mod Bounded
pub mod Division
pub mod Modulo
pub mod Worked
