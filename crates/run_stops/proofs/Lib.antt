-- The laws that the proofs of run_stops cite.
pub mod Laws
