-- What is proved of the two texts of a set, each statement under the sentence of document 02 that it renders: a set means the bytes of its ranges,
-- whichever text they are of; a set with its texts changed over; a set that is of one text alone; and of which text a set is that was read.
pub mod Meaning
pub mod Exchanged
pub mod OneText
pub mod Read
