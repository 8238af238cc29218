-- The laws that the proofs of read_tags cite: the walk over a payload's tokens (Langs), the tag at a brace (Braces), and the order (Orders).
pub mod Langs
pub mod Braces
pub mod Orders
