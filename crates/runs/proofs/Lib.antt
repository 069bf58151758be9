pub mod Told
pub mod Halts
pub mod Words
