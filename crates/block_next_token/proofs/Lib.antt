-- The laws of block_next_token.
pub mod Steps
pub mod Counting
