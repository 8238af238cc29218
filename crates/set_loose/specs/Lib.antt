-- The definitions that the contracts of set_loose cite; Inner: those of private functions alone.
pub mod Without
pub mod Loose
pub mod Inner
