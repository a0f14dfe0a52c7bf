pub mod Counted
pub mod Numbered
pub mod Tests
pub mod Rules
pub mod Read
pub mod Tree
pub mod Refusals
pub mod Verdicts
