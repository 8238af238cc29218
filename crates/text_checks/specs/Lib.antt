-- The definitions that the contracts of text_checks cite, and those that others build on.
pub mod Check
pub mod Outcomes
