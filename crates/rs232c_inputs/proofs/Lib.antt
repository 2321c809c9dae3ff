pub mod Determined
pub mod Places
pub mod Switches
