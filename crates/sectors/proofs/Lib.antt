pub mod Links
pub mod Paths
pub mod Cuts
pub mod Pieces
pub mod Moves
pub mod Appends
pub mod Lines
