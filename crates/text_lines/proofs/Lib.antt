-- The laws about trimming and lines that later crates cite.
pub mod Trim
pub mod First
pub mod Lines
pub mod Counted
