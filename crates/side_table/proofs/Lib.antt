pub mod Shown
pub mod Parts
pub mod Tests
pub mod Writes
