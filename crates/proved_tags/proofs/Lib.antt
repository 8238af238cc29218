-- What is proved of reading with the language tag looked at. Statements are in specs/.
pub mod Langs
pub mod Rules
pub mod Strictly
