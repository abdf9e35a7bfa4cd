pub mod Decimal
pub mod Kept
pub mod Padded
