-- Laws of runs.
pub mod Joining
pub mod Bounds
