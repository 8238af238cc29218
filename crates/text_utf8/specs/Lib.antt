-- The definitions that the contracts of text_utf8 cite.
pub mod Computed
pub mod Utf8
pub mod Inner
