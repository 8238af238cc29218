-- Laws of the search for a refused run at a text's end.
pub mod Openings
pub mod Bounds
pub mod Upwards
pub mod Numbers
