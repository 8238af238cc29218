-- The proofs of what is stated.
pub mod Readers
