pub mod Rows
pub mod Blobs
pub mod Found
pub mod Seen
