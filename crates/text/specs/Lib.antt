pub mod Reading
pub mod Readers
pub mod Printing
pub mod Writing
pub mod Laid
pub mod Outcomes
pub mod Ascii
pub mod Worked
