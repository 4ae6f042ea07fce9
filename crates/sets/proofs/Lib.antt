pub mod Powers
pub mod Put
pub mod Taken
pub mod Count
pub mod Known
pub mod Bit
