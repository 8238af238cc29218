-- The laws about where a line begins that later crates cite.
pub mod Starts
pub mod StartNumbers
