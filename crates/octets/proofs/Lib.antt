pub mod Writes
pub mod BigEndian
