-- The definitions that the contracts of text_digits cite.
pub mod Decimal
pub mod Digits
