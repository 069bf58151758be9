pub mod Facts
pub mod Rewrites
pub mod Calls
pub mod Changes
