-- The proofs of what specs/ states about the payload grammar: reading, the close and the quick test, blocks back to back, what they mean and where it stands,
-- and the walker.
pub mod Tags
pub mod Payload
pub mod Characters
pub mod Close
pub mod Quick
pub mod Blocks
pub mod Views
pub mod Once
pub mod Plain
pub mod Merged
pub mod Pieces
pub mod Places
pub mod Stands
pub mod Tokens
