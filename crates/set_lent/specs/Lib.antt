-- The definitions that the contracts of set_lent cite.
pub mod Lent
