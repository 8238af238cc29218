-- The proofs of what is said of runs of lines: the scanners, what runs join and count, their texts, pads, and the count of an answer.
pub mod Quotes
pub mod Braces
pub mod Characters
pub mod Texts
pub mod Joined
pub mod Bounds
pub mod RefusedBounds
pub mod EndingBounds
pub mod Pads
pub mod Copies
pub mod RefusedCounts
