-- The definitions that the contracts of read_brace cite.
pub mod Brace
