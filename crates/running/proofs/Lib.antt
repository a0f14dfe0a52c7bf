pub mod Texts
pub mod Running
