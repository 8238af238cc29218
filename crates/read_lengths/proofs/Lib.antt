-- The laws about measuring that later crates cite.
pub mod Measured
pub mod LengthNumbers
