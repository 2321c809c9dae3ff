pub mod Determined
pub mod Phrases
