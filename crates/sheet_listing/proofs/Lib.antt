-- The laws of sheet_listing.
pub mod Listings
