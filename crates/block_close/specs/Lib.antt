-- What the private functions of block_close promise.
pub mod Inner
