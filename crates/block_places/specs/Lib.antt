-- Where a payload and a token go wrong: the languages that are asked for, and a walk over bytes.
pub mod Rules
pub mod Computed
pub mod Inner
