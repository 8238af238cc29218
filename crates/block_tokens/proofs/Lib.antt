-- The laws that the proofs cite; `Steps` is for callers.
pub mod Runs
pub mod Quotes
pub mod Words
pub mod Lent
pub mod Steps
pub mod Payload
