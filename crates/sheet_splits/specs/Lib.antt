-- Where a sheet may be parted.
pub mod Parting
