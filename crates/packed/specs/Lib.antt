pub mod Fields
pub mod Small
