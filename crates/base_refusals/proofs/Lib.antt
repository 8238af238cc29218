-- The laws of base_refusals.
pub mod Numbers
pub mod Orders
pub mod Said
