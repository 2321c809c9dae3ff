pub mod Calls
pub mod Determined
pub mod Examples
pub mod Feeding
