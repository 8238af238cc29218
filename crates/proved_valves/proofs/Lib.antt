-- What is proved of the variant reader. Statements are in specs/.
pub mod Numbers
pub mod Keys
pub mod Settings
pub mod Cells
pub mod Pairs
pub mod Sheets
