pub mod Steps
pub mod Lends
pub mod Tests
