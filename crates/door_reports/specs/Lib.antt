-- The definitions that the contracts of door_reports cite.
pub mod Reports
