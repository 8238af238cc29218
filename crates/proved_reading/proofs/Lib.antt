-- The proofs of what is said of reading and measuring: at a brace, the sets handed out, blocks and their lengths, and the numbers of answers.
pub mod Meaning
pub mod Agrees
pub mod HandedOut
pub mod ChainsOut
pub mod BlockSets
pub mod LineSets
pub mod LengthsFair
pub mod LengthsAgree
pub mod Places
pub mod Wraps
pub mod ByLines
pub mod Alone
