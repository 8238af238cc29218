-- The definitions that the contracts of sheet_blocks cite.
pub mod Sheets
