-- What is proved of reading and measuring, each statement under the sentence of document 01 that it renders.
pub mod Table
pub mod AtBraces
pub mod HandedSets
pub mod Measuring
pub mod ByLines
pub mod Alone
