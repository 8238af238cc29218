-- The laws of door_totals.
pub mod Says
