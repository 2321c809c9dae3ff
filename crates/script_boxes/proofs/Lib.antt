pub mod Determined
pub mod Configurations
