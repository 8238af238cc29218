-- Laws that the proofs of door_valves cite.
mod Says
