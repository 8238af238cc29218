-- The definitions that the contracts of sheet_listing cite.
pub mod Listing
