-- Laws of numbers as they are written.
pub mod Numbers
