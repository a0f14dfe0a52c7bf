pub mod Gives
pub mod Fitting
pub mod Loose
pub mod Ways
pub mod Replaces
