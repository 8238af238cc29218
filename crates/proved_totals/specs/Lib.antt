-- What is stated of the numbers over all sheets, under the sentences of document 02's request 10.
pub mod Sums
pub mod Sheets
pub mod Texts
