pub mod Asks
pub mod Commands
