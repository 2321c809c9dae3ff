pub mod Boxes
pub mod Determined
mod Examples
pub mod Ranges
