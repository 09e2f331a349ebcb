-- The theorems of sheets.
pub mod Steps
pub mod Sheets
pub mod Only
