pub mod History
pub mod Ledger
pub mod Promises
pub mod Runs
pub mod Useless
