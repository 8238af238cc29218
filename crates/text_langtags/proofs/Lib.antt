-- The laws that the proofs of text_langtags cite, and its theorems: the definition against the grammar (Sound, Complete), letter case (Cases), the two lists
-- (Tables, Listed), document 01's tags (Plain), and the walk a byte at a time against the definition (Words, Steps).
pub mod Subtags
pub mod Tables
pub mod Cases
pub mod Sound
pub mod Complete
pub mod Plain
pub mod Listed
pub mod Words
pub mod Steps
pub mod Keys
