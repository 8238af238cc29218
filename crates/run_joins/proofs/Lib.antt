-- Laws of a line that is joined.
pub mod Steps
