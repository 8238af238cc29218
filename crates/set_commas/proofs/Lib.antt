-- The laws of set_commas.
pub mod Steps
pub mod Loops
pub mod Splits
pub mod Pieces
pub mod Only
pub mod Cases
