-- What is proved of blocks composed anyhow. Statements are in specs/.
pub mod Merging
pub mod Steps
pub mod Empty
pub mod Anywhere
pub mod Alone
pub mod Line
