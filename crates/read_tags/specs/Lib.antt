-- The definitions that the contract of read_tags cites; Inner: those of private functions alone.
pub mod Tagged
pub mod Inner
