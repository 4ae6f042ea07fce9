pub mod Obeyed
pub mod Sound
pub mod Counts
pub mod SoundState
pub mod Greatest
