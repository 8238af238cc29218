-- The definitions that the contracts of set_keyed cite.
pub mod Keyed
