-- The laws that the proofs of set_keyed cite.
pub mod Means
pub mod Numbers
pub mod Slots
