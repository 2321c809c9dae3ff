pub mod Configurations
pub mod Determined
pub mod Examples
pub mod Orders
