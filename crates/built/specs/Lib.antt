pub mod Layout
pub mod Recast
pub mod Laws
pub mod Seen
pub mod Untouched
pub mod Calls
pub mod Rewritten
