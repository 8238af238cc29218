-- The definitions that the contracts of text_names cite, the grammar of tags, and the longest prefix that can be continued.
pub mod Longest
pub mod Tested
pub mod Names
pub mod Grammar
pub mod Computed
