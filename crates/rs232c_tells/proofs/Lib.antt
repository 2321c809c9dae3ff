pub mod Determined
pub mod Fitting
