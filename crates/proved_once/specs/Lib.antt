-- What is stated of the second reader, under the sentences of document 02's request 11.
pub mod Readers
