-- The definitions that the contracts of set_items cite; Inner: those of private functions alone.
pub mod Items
pub mod Inner
