-- The laws that the proofs of block_payloads cite.
pub mod Lines
