pub mod Lawful
pub mod Distinct
pub mod Round
