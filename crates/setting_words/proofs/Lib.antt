pub mod Choices
pub mod Determined
pub mod Search
pub mod Found
pub mod Firsts
