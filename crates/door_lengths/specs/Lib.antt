-- The definitions that the contracts of door_lengths cite.
pub mod Lengths
