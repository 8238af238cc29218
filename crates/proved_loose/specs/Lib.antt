-- What is stated of `consume_loose`, under the sentences of document 02's request 14.
pub mod Loose
