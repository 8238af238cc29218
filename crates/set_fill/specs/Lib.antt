-- The definitions that the contracts of set_fill cite; Inner: those of private functions alone.
pub mod Fill
pub mod Inner
