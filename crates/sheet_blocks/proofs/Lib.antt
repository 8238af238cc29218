-- Laws of sheets.
pub mod Tries
pub mod Seeks
pub mod Goes
pub mod Rooms
pub mod NextNumbers
pub mod SheetWalk
