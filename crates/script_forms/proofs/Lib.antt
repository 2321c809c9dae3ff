pub mod Forms
pub mod Determined
pub mod Examples
