pub mod Cover
pub mod Seen
pub mod Totals
pub mod Covering
pub mod Contents
pub mod Changes
pub mod Layout
pub mod Lawful
