-- What is demanded of the whole, and proved. `Demands` is the page to read first.
pub mod Eight
pub mod Demands
pub mod Canonical
pub mod Cases
pub mod Typed
