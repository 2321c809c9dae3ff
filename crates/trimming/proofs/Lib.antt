pub mod Ends
pub mod Trimmed
pub mod Determined
pub mod LastByte
