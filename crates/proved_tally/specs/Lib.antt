-- What is stated of one sheet's numbers, under the sentences of change request 10.
pub mod Lines
pub mod Sheets
pub mod Runs
pub mod Listed
