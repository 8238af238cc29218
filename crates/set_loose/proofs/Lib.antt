-- The laws of set_loose.
pub mod Without
pub mod Walk
pub mod Left
pub mod Named
pub mod Keys
pub mod Whole
