-- The laws that the proofs of the crates over door_shared cite.
pub mod Laws
