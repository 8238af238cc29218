-- The rule of the table, what a mask says of a byte, and how far a name goes.
pub mod Rule
pub mod Fronts
