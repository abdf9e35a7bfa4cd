pub mod Realizing
