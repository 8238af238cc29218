-- The definitions that the contracts of set_marks cite.
pub mod Marks
