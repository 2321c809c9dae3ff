pub mod Lengths
pub mod Words
pub mod Determined
