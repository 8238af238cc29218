-- The definitions that the contracts of door_runs cite.
pub mod Runs
