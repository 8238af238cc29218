-- Laws that the proofs of door_loose cite.
mod Said
