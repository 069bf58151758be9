pub mod Rules
pub mod Open
pub mod Calls
pub mod Reads
pub mod Paper
