-- Laws of replaced lines.
pub mod Walks
pub mod Cuts
pub mod Rules
pub mod Mended
