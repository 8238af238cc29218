-- The definitions that the contracts of read_by_line cite.
pub mod Entries
