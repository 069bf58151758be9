pub mod Shares
pub mod Memory
pub mod Layout
pub mod Laws
