-- The definitions that the contracts of run_scanners cite.
pub mod Scanners
pub mod Inner
