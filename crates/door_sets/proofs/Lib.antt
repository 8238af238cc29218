-- Laws that the proofs of door_sets cite.
mod Said
