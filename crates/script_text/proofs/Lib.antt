pub mod Behind
pub mod Determined
pub mod Examples
pub mod Puts
pub mod Texts
