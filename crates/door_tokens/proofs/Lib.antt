-- Laws that the proofs of door_tokens cite.
mod Told
