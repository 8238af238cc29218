-- The definitions that the contracts of block_next_token cite.
pub mod Walk
