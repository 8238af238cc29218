-- The laws of set_columns.
pub mod Laid
pub mod Tables
