pub mod Determined
pub mod Examples
pub mod Host
pub mod Life
