pub mod AskedBack
pub mod ReadBack
pub mod Determined
mod Examples
pub mod Flip
pub mod Validity
pub mod Only
pub mod Plain
pub mod Questions
pub mod Stays
