pub mod Live
pub mod Moves
pub mod Kept
pub mod Lookup
pub mod Change
pub mod Comes
pub mod Same
pub mod Stored
