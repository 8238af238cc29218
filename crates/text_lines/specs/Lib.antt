-- The definitions that the contracts of text_lines cite.
pub mod Trim
pub mod Lines
