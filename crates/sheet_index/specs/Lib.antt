-- The definitions that the contracts of sheet_index cite.
pub mod Building
pub mod Finding
pub mod Inner
