pub mod Stream
pub mod Calls
pub mod Pieces
pub mod Both
