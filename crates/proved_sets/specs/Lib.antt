-- What is proved of sets, each statement under the sentence of document 01 that it renders: what is read into a set means, which tables are well-formed,
-- what a merge comes to, what is handed out, that refusal 8 was never given, and how canonical text is read back.
pub mod Read
pub mod Limits
pub mod Formed
pub mod Merged
pub mod HandedOut
pub mod Eight
pub mod Canonical
