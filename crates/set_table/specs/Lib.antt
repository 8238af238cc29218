-- The definitions that the contracts of set_table cite; Inner: those of private functions alone, which put things into a table.
pub mod Types
pub mod Rows
pub mod Puts
pub mod Shape
pub mod Filled
pub mod Inner
