pub mod Runs
pub mod Back
pub mod Words
