-- The definitions that the contracts of door_merged cite.
pub mod Merged
