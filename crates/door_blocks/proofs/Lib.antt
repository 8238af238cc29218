-- Laws that the proofs of door_blocks, and of the crates over it, cite.
pub mod Over
