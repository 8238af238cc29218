-- The definitions that the contracts of set_values cite.
pub mod Values
