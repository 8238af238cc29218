-- The definitions that the contracts of set_merge cite; Inner: those of private functions alone.
pub mod Merge
pub mod Inner
