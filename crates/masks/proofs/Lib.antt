pub mod Members
pub mod Nested
pub mod Kept
