pub mod Rules
pub mod Ways
pub mod Beside
pub mod Listed
pub mod Determined
pub mod Examples
