pub mod Merges
pub mod Orders
