-- The definitions that the contracts of set_wellformed cite; Inner: those of private functions alone.
pub mod WellFormed
pub mod Inner
