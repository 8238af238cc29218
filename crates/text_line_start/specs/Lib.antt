-- The definitions that the contract of text_line_start cites.
pub mod Starts
