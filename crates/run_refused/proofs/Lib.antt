-- Laws of refused runs.
pub mod Leaves
pub mod Walking
pub mod Comments
pub mod Padding
pub mod Answers
pub mod Bounds
pub mod Numbers
