-- The laws about blocks that later crates cite.
pub mod Finds
pub mod ByLine
pub mod Places
pub mod Wraps
pub mod BlockNumbers
