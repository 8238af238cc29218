-- Laws that the proofs of door_merged cite.
mod Said
