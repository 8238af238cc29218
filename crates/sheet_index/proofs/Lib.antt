-- The laws that the proofs of sheet_index cite.
pub mod Steps
pub mod Rounds
pub mod Builds
pub mod Rows
