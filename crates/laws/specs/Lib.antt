pub mod Sheets
pub mod Updates
