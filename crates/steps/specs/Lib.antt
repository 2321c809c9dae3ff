pub mod Messages
pub mod Addressing
pub mod Step
pub mod Run
