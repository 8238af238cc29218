-- What is proved of the findings of a sheet.
pub mod Findings
pub mod Stops
pub mod Entries
pub mod Sources
pub mod Quotes
