-- What is proved of whole sheets and their report. Statements are in specs/.
pub mod Rooms
pub mod Order
pub mod Answers
pub mod BlockSets
pub mod Said
pub mod Decimals
pub mod Begins
pub mod Calls
