-- The laws of the walk: what it passes and takes, token by token; the place; the walk beside the search for the close; boundaries.
pub mod Walk
pub mod Sound
pub mod Complete
pub mod Place
pub mod Tokens
pub mod Ways
pub mod Search
pub mod Boundary
