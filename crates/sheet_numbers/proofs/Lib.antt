-- The laws of sheet_numbers.
pub mod Along
pub mod Laying
pub mod Fields
pub mod Reading
