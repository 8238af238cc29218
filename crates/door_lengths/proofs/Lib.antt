-- Laws that the proofs of door_lengths cite.
mod Says
