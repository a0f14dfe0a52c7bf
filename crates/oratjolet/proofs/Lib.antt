pub mod Plans
pub mod Shows
pub mod Outcomes
