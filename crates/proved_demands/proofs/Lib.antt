-- What is demanded of the whole, proved. Statements are in specs/.
pub mod Single
pub mod Eight
pub mod Demands
pub mod Canonical
pub mod Cases
pub mod Example
