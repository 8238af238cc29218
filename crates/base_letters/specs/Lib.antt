-- The classes of bytes that the table of base_letters holds.
pub mod Classes
