pub mod Decode
pub mod Determined
mod Signed
mod Values
