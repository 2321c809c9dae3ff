pub mod Shapes
pub mod Determined
pub mod Areas
pub mod Hex
pub mod Words
pub mod Laws
