pub mod Marks
pub mod Marked
pub mod Orders
pub mod Plans
pub mod Planned
