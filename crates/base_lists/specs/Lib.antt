-- The definitions that the contracts of base_lists cite.
pub mod Lists
