-- The laws that the proofs of read_once cite.
pub mod Arms
pub mod Calm
pub mod Codes
pub mod Cuts
pub mod Ends
pub mod Gaps
pub mod Look
pub mod Loop
pub mod Moves
pub mod Names
pub mod Nexts
pub mod Quote
pub mod Steps
pub mod Tables
pub mod Tags
pub mod Tokens
pub mod Values
