-- What callers of text_tabs cite beyond the contracts.
pub mod Laws
