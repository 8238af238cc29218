-- The definitions that the contracts of door_sets cite.
pub mod Sets
