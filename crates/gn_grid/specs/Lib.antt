pub mod GridLists
