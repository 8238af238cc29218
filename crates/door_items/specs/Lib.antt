-- The definitions that the contracts of door_items cite.
pub mod Items
