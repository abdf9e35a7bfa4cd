pub mod Number
pub mod Sought
pub mod Sockets
pub mod Scopes
pub mod Things
pub mod Measures
pub mod Rules
pub mod Walk
