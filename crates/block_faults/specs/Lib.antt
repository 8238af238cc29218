-- The definitions that the contracts of block_faults cite.
pub mod Faults
