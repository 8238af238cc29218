-- What callers of text_escapes cite beyond the contracts.
pub mod Pieces
pub mod Laws
