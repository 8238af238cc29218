-- The definitions that the contracts of set_columns_lent cite.
pub mod Lent
