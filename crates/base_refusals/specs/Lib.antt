-- The definitions that the contracts of base_refusals cite.
pub mod Numbers
pub mod Orders
