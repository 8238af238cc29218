-- What the private functions of block_quick promise.
pub mod Inner
