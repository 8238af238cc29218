-- The laws of text_digits.
pub mod Decimals
pub mod Steps
