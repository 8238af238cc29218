-- Laws of parting a sheet.
pub mod Lines
pub mod Anywhere
pub mod Finds
pub mod Split
pub mod Bytes
pub mod Alike
pub mod Records
pub mod Parted
