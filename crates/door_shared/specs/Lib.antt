-- The definitions that the contracts of door_shared and of the crates over it cite.
pub mod Tells
