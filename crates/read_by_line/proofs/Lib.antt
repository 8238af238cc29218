-- The laws about the entries by line number that later crates cite.
pub mod Starts
pub mod LineNumbers
