-- The definitions that the contracts of sheet_verdicts cite.
pub mod Verdicts
