pub mod Promise
pub mod Turns
