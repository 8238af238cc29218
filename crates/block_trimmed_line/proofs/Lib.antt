-- The laws about the line at a place that later crates cite.
pub mod Trimmed
