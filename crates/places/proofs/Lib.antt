pub mod Splices
pub mod Parts
pub mod Models
pub mod Stands
pub mod Writes
pub mod Laid
