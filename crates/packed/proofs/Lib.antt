pub mod Replaced
pub mod Takes
