-- The proofs of what specs/ states about the places at which names, tags, tokens and payloads go wrong.
pub mod Rests
pub mod Places
