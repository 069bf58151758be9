pub mod Disk
pub mod Ask
pub mod Laws
pub mod Place
pub mod Left
pub mod Built
pub mod Occurs
pub mod Texts
