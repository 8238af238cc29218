-- The laws that the proofs of block_quick cite.
pub mod Walks
