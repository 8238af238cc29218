-- The proofs of what specs/ states about texts: UTF-8, its boundaries and its count, escapes, tab stops, lines, and the numbers of what is asked first.
pub mod Utf8Grammar
pub mod Utf8Shape
pub mod Utf8Boundaries
pub mod Utf8Count
pub mod Utf8Vectors
pub mod Escapes
pub mod Tabs
pub mod Lines
pub mod Trim
