-- The definitions that the contracts of door_tags cite.
pub mod Tags
