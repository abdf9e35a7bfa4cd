pub mod Firsts
mod Examples
