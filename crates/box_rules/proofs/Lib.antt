pub mod Determined
mod Distinct
mod Ring
