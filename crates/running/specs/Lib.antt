pub mod Calls
pub mod Texts
pub mod Running
pub mod Worked
