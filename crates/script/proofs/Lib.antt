pub mod Digits
pub mod Marks
pub mod Numerals
pub mod Pieces
