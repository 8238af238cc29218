-- The definitions that the contracts of door_columns cite; Inner: those of private functions alone.
pub mod Said
pub mod Inner
