-- The definitions that the contracts of run_lines cite.
pub mod Runs
