-- The laws of door_indexes.
pub mod Says
