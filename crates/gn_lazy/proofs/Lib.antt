mod Examples
mod Ordered
mod Texts
