-- Laws that the proofs of door_items cite.
mod Said
