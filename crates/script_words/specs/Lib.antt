pub mod Words
pub mod Kinds
