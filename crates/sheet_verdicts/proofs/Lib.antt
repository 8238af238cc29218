-- The laws that the proofs of sheet_verdicts cite.
pub mod Verdicts
