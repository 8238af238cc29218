-- The definitions that the contracts of set_exchange cite.
pub mod Exchange
