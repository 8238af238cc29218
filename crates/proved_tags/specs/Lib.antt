-- What is stated of reading with the language tag looked at, under the sentences of document 02's request 3.
pub mod Rules
pub mod Strictly
