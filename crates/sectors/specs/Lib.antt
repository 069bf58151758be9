pub mod Sectors
pub mod Chains
