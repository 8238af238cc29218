-- The definitions that the contracts of sheet_stands cite.
pub mod Stands
