-- The theorems about lines of blocks, and the laws that the proofs of block_chain cite.
pub mod Blocks
pub mod Good
