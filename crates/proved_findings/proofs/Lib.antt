-- The proofs of what specs/ states.
pub mod Findings
pub mod Braces
pub mod Stops
pub mod Entries
pub mod Sources
pub mod Quotes
