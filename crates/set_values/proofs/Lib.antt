-- Laws about the rows of keys.
pub mod Keys
pub mod Each
