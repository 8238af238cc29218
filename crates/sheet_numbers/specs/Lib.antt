-- The definitions that the contracts of sheet_numbers cite.
pub mod Text
pub mod Computed
pub mod Inner
