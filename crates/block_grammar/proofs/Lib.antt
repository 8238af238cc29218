-- The theorems about the payload grammar.
pub mod Bytes
pub mod Tokens
pub mod Chain
pub mod Payload
pub mod Loop
pub mod Places
pub mod Close
pub mod Fresh
pub mod Once
