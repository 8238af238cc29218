-- What is proved of well-formed language tags. Statements are in specs/.
pub mod WellFormedTags
