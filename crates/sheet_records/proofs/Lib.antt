-- The laws that the proofs of sheet_records cite.
pub mod Places
pub mod Lines
pub mod Further
pub mod Written
