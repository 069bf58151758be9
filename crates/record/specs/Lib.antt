pub mod Written
pub mod Scans
pub mod Grades
pub mod Distances
pub mod Texts
pub mod Measured
pub mod Scanned
pub mod Pairs
