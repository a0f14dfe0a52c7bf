pub mod Truth
pub mod Places
pub mod Totals
pub mod Loops
pub mod Parts
pub mod Rises
pub mod Search
pub mod Chains
