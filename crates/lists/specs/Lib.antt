pub mod Lists
pub mod Totals
pub mod Loops
pub mod Parts
