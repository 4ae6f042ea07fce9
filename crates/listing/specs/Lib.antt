pub mod Answers
pub mod Digits
pub mod Listing
pub mod Outputs
pub mod Refusals
pub mod Written
