-- The definitions that the contracts of run_endings cite.
pub mod Endings
pub mod Inner
