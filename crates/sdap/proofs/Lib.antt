pub mod Accepted
pub mod Determined
mod Examples
pub mod Lengths
pub mod Numbers
pub mod Round
pub mod Again
pub mod Texts
