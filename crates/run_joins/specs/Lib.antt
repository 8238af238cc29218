-- The definitions that the contracts of run_joins cite.
pub mod Joins
pub mod Inner
