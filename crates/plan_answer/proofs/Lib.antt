pub mod Laid
pub mod Marks
pub mod Outcomes
pub mod Sets
