pub mod Runs
pub mod Referring
pub mod Roots
