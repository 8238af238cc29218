-- The canonical text of a meaning, and what a class may be.
pub mod Canon
