-- The definitions that the contracts of door_valves cite.
pub mod Valves
