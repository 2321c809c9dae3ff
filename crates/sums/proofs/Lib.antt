pub mod Determined
mod Examples
pub mod Folds
