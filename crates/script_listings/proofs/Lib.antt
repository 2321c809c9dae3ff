pub mod Bounds
pub mod Determined
pub mod Entries
pub mod Examples
