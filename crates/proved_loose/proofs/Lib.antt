-- What is proved of `consume_loose`. Statements are in specs/.
pub mod Without
pub mod Means
pub mod Empty
