-- What is proved about the payload grammar, blocks back to back, what they mean, and the walker; each statement under document 01's sentence that it renders.
pub mod Tags
pub mod Payload
pub mod Characters
pub mod Close
pub mod Quick
pub mod Blocks
pub mod Meaning
pub mod Once
pub mod Merged
pub mod Pieces
pub mod Places
pub mod Tokens
