-- The laws that the proofs of text_names cite.
pub mod Headed
pub mod Tag
pub mod Told
pub mod Grammar
pub mod NamePlaces
pub mod TagPlaces
