pub mod Cast
pub mod Determined
pub mod Ended
mod Examples
mod Packets
pub mod Refusals
pub mod Validity
