-- What the private functions of read_once promise; its public promises are definitions of read_brace and read_tags.
pub mod Inner
