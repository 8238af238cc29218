-- What is proved about texts, each statement under the sentence that it renders: of RFC 3629, of CommonMark 0.31.2, or of document 01.
pub mod Utf8Rules
pub mod Utf8
pub mod Vectors
pub mod EscapeRules
pub mod Escapes
pub mod Tabs
pub mod Lines
pub mod Trim
