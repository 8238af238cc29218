-- The laws that the proofs of text_utf8 cite, and the theorems about its definitions.
pub mod Laws
pub mod Neighbours
pub mod Pieces
