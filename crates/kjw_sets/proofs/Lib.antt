pub mod Parameters
pub mod Determined
