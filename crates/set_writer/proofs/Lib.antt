-- What callers of set_writer cite beyond the contracts.
pub mod Fills
pub mod Writes
pub mod Items
pub mod Walks
pub mod Room
pub mod Kept
pub mod Given
pub mod Numbers
