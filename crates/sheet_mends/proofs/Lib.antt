-- Laws of mending.
pub mod Tells
pub mod Tales
pub mod Assembling
pub mod Orders
