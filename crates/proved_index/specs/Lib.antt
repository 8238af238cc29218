-- What is stated of the index, under the sentences of document 02's request 5.
pub mod Form
pub mod Built
pub mod Lookups
pub mod Versions
