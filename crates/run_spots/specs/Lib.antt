-- The definitions that the contracts of run_spots cite.
pub mod Spots
