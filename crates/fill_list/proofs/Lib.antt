pub mod Counts
pub mod Grounds
pub mod Writes
