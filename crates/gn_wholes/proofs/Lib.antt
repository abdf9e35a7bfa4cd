mod Arguments
mod Bringing
mod Collecting
mod Covering
mod Examples
mod Ordering
mod Places
