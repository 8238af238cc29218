-- What callers of set_once cite beyond the contracts.
pub mod Kept
