-- The definitions that the contracts of block_payloads cite.
pub mod Payloads
