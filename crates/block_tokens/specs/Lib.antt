-- A token by ranges.
pub mod Shown
pub mod Lent
pub mod Inner
