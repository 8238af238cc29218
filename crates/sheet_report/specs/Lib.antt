-- The definitions that the contracts of sheet_report cite.
pub mod Report
pub mod Parts
pub mod Puts
pub mod Inner
