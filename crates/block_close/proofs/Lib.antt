-- The laws that the proofs of block_close cite.
pub mod Search
