pub mod Determined
pub mod Names
pub mod Refusals
