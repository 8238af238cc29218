-- The definitions that the contracts of block_chain cite.
pub mod Computed
pub mod Chain
pub mod Inner
