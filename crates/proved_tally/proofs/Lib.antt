-- The theorems about the numbers of one sheet.
pub mod Lines
pub mod Sheets
pub mod Runs
pub mod Listed
