-- The definitions that the contracts of block_trimmed_line cite.
pub mod Fronts
