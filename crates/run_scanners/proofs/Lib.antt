-- What callers of run_scanners cite beyond the contracts.
pub mod Laws
pub mod Quick
