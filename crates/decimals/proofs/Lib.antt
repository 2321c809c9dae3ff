pub mod Decimals
pub mod Determined
pub mod Numerals
pub mod Plain
pub mod Powers
pub mod Taken
pub mod Texts
