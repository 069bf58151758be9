pub mod Across
pub mod Recasts
