-- Laws that the proofs of door_reports cite.
mod Says
