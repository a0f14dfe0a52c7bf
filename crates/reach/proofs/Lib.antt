pub mod Rising
pub mod Runs
pub mod Referring
pub mod Reached
