pub mod Gains
pub mod Reaching
