-- The laws that the proofs of door_tags cite.
pub mod Said
