-- The definitions that the contracts of run_stops cite.
pub mod Stops
