-- The definitions that the contracts of door_blocks cite.
pub mod Blocks
