-- The definitions that the contracts of run_refused cite.
pub mod Refused
pub mod Inner
