-- The laws that the proofs of set_table cite.
pub mod Ranges
pub mod Table
pub mod Keys
pub mod Slots
pub mod Whole
pub mod Puts
pub mod Holding
pub mod Numbers
