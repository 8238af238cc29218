-- What is stated of blocks composed anyhow, under the sentences of document 02's request 12: "Sheet tools fold common, family and variant blocks in different groupings."
pub mod Groups
pub mod BackToBack
