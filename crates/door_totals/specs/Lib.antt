-- The definitions that the contracts of door_totals cite.
pub mod Kept
