mod Calls
pub mod Determined
pub mod Doors
mod Stores
