pub mod Refusals
pub mod Waiting
pub mod Calls
pub mod Round
