pub mod Calls
pub mod Cuts
pub mod Fields
pub mod Numbers
pub mod Reading
pub mod Refusals
