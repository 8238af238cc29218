-- The definitions that the contracts of door_loose cite.
pub mod Loose
