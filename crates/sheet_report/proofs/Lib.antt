-- Laws that the proofs of sheet_report cite.
pub mod Laying
pub mod Lays
pub mod Entries
pub mod ReportNumbers
