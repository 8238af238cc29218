-- The laws about lists that every crate cites.
pub mod Steady
pub mod Scan
pub mod Same
pub mod Parts
pub mod More
pub mod Flat
pub mod Sets
pub mod Each
pub mod Runs
