-- The definitions that the contracts of door_tokens cite.
pub mod Tokens
