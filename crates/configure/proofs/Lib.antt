pub mod Determined
pub mod Boxes
pub mod Examples
pub mod Long
