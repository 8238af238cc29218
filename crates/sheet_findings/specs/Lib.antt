-- The definitions that the contracts of sheet_findings cite.
pub mod Findings
