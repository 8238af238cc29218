-- The theorems of proved_mends.
pub mod Parts
pub mod Replaced
pub mod Mended
