pub mod NameEquality
pub mod Entries
pub mod Twins
pub mod MemberTwins
pub mod Chosen
mod Examples
