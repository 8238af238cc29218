-- The definitions that the contracts of sheet_mends cite.
pub mod Mending
pub mod Inner
pub mod Assembled
