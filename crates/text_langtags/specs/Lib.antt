-- The grammar of RFC 5646, and the definitions that the contracts of text_langtags cite; Inner: those of private functions alone, a byte at a time.
pub mod Letters
pub mod Grammar
pub mod Computed
pub mod Inner
