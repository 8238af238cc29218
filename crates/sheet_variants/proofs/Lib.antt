-- The laws that the proofs of sheet_variants cite.
pub mod Walks
pub mod VariantNumbers
