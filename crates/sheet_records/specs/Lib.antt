-- The definitions that the contracts of sheet_records cite.
pub mod Records
pub mod Listed
pub mod Computed
pub mod Writing
pub mod Inner
