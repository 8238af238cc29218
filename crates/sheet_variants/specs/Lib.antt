-- The definitions that the contracts of sheet_variants cite.
pub mod Variants
