pub mod Copies
pub mod Layers
pub mod Held
