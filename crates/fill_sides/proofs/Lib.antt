pub mod Numbers
pub mod Rows
pub mod Counts
pub mod Stores
pub mod Whole
