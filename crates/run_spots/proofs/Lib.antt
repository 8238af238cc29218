-- Laws of a line's front and of comments.
pub mod Leaves
