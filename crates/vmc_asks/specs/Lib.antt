pub mod Asks
