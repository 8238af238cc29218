-- Laws of values byte by byte.
pub mod Values
