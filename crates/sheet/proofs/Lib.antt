pub mod Chains
pub mod Numbers
pub mod Words
pub mod Facts
pub mod Steps
pub mod Into
pub mod Good
pub mod Refusals
