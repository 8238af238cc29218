-- The laws that the proofs of read_brace cite.
pub mod Laws
pub mod Numbers
pub mod Places
