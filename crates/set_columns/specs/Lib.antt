-- The definitions that the contracts of set_columns cite; Inner: those of private functions alone.
pub mod Columns
pub mod Inner
