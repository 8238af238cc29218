-- What is stated of whole sheets and their report, under the sentences of document 01's 'The sheet program'.
pub mod Order
pub mod Blocks
pub mod Report
pub mod Calls
