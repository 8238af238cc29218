-- What is proved of the columns of valve tables. Statements are in specs/.
pub mod Splits
pub mod Widths
pub mod Tables
