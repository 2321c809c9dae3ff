pub mod Phrases
pub mod Texts
