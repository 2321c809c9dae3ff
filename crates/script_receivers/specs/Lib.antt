pub mod Calls
pub mod Receivers
