-- The laws about the two checks.
pub mod Texts
pub mod CheckNumbers
