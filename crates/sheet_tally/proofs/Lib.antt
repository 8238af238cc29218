-- The laws that the proofs of sheet_tally cite.
pub mod Lists
pub mod Counting
pub mod Lows
pub mod Steps
pub mod Runs
pub mod Tallies
pub mod Feeding
