-- What is proved of the numbers over all sheets. Statements are in specs/.
pub mod Sums
pub mod Lists
pub mod Longest
pub mod Sheets
pub mod Texts
