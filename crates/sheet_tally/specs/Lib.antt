-- The definitions that the contracts of sheet_tally cite; Inner: those of private functions alone.
pub mod Lists
pub mod Counts
pub mod Feeds
pub mod Inner
