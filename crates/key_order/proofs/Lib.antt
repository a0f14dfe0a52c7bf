pub mod Merges
pub mod Orders
pub mod Keys
