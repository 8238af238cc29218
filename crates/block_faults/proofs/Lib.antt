-- The laws that the proofs of block_faults cite, and that nothing is wrong exactly with good blocks.
pub mod Chains
pub mod Goods
