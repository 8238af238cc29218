-- The definitions that the contracts of door_indexes cite.
pub mod Indexes
