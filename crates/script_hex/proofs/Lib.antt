pub mod Determined
pub mod Hex
