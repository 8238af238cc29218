-- The definitions that the contracts of text_tabs cite.
pub mod Columns
