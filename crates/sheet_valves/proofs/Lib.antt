-- The laws that the proofs of sheet_valves cite.
pub mod Cells
pub mod Pairs
pub mod Settings
pub mod Keys
