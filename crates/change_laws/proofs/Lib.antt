pub mod Answers
pub mod Halves
