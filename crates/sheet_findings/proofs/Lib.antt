-- The laws that the proofs of sheet_findings cite.
pub mod Lines
pub mod Seeks
