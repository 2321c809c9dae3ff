pub mod Areas
pub mod Cutting
pub mod Lives
pub mod Happens
pub mod Overlong
pub mod Examples
