pub mod Zeros
pub mod Counted
pub mod Outcomes
pub mod Lawful
