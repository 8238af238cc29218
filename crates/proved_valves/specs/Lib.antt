-- What is stated of the variant reader, under the sentences of document 02's request 1.
pub mod Numbers
pub mod Keys
pub mod Settings
pub mod Cells
pub mod Pairs
pub mod Sheets
