pub mod Frames
pub mod Asks
