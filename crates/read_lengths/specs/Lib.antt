-- The definitions that the contracts of read_lengths cite.
pub mod Lengths
pub mod Inner
