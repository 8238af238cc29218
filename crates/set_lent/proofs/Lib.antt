-- The laws of set_lent.
pub mod Standing
