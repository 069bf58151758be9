pub mod Written
pub mod BigEndian
