-- The proofs of what specs/ states of the two texts of a set.
-- ---- values and names that are alike, one by one, and what is put together of them
pub mod Pairs
pub mod Meaning
pub mod Alike
pub mod Checks
pub mod Sets
-- ---- the texts changed over
pub mod Exchanged
-- ---- one text alone
pub mod Steady
pub mod OneText
pub mod Mirror
pub mod Read
