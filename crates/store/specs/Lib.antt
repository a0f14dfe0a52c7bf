pub mod Answers
pub mod Tests
pub mod Parts
pub mod Plans
pub mod Shows
