-- The definitions that the contracts of text_escapes cite.
pub mod Unescape
