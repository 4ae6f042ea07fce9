pub mod Refusals
pub mod Operations
pub mod Calls
pub mod Cells
pub mod Stores
