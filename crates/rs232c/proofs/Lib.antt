pub mod AskedBack
mod Bits
pub mod Determined
mod Examples
pub mod Validity
pub mod Refusals
pub mod Stays
pub mod Doors
pub mod Exact
