-- What is stated of the columns of valve tables, under the sentences of document 02's request 13.
pub mod Columns
