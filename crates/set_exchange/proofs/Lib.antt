-- The laws that the proofs of set_exchange cite.
pub mod Loops
