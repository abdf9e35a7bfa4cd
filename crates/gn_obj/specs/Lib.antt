pub mod Parts
pub mod Written
pub mod Texts
pub mod Pages
