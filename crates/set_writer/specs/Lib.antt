-- The definitions that the contracts of set_writer cite; Inner: those of private functions alone.
pub mod Write
pub mod Inner
