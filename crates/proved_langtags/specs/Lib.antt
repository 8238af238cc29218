-- What is stated of well-formed language tags, under the sentences of document 02's request 3.
pub mod WellFormedTags
