pub mod Replaced
pub mod Updating
