pub mod Determined
pub mod Parts
