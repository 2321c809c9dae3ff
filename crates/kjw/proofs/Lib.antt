pub mod Determined
mod Examples
pub mod Validity
pub mod Notices
pub mod Stays
pub mod AskedBack
pub mod Codes
pub mod Refusals
