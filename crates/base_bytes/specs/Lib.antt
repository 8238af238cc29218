-- The definitions that the contracts of base_bytes cite.
pub mod Bytes
