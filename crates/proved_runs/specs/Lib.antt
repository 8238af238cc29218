-- What is proved of runs of lines, each statement under the sentence of document 01 that it renders.
pub mod Rules
pub mod Scanning
pub mod Lookaheads
pub mod JoinedTexts
pub mod Padding
