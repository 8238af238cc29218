-- The laws that the proofs of set_merge cite, and what is proved of a merge (Means).
pub mod Fronts
pub mod Tables
pub mod Rest
pub mod Whole
pub mod Numbers
