pub mod Numbers
pub mod Found
pub mod Lines
pub mod Starts
pub mod Rights
pub mod Classes
pub mod Deeds
pub mod Roles
