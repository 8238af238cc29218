-- Laws that the proofs of door_runs cite.
mod Says
