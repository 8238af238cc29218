-- The definitions that the contracts of read_blocks cite, and those of the blocks by line number.
pub mod Blocks
pub mod ByLine
pub mod Inner
