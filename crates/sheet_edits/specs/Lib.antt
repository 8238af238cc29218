-- The definitions that the contracts of sheet_edits cite, and what mending rests on.
pub mod Edits
pub mod Rules
pub mod Mends
