-- The definitions that the contracts of sheet_valves cite.
pub mod Tables
pub mod Pairs
pub mod Settings
pub mod Inner
