-- The definitions that the contracts of sheet_totals cite.
pub mod Totals
