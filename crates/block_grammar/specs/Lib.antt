-- The payload grammar: its rules and reading by computing, what a meaning is made of, the close by rules and by computing, the quick test.
pub mod Grammar
pub mod Computed
pub mod Meaning
pub mod Close
pub mod ComputedClose
pub mod Quick
