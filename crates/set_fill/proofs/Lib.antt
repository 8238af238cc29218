-- The laws that the proofs of set_fill cite.
pub mod Pieces
pub mod Walk
pub mod Chains
pub mod Limits
pub mod Fills
pub mod Whole
pub mod Numbers
pub mod Fronts
