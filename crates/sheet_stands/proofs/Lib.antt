-- The laws of sheet_stands.
pub mod Fronts
