pub mod Determined
pub mod Ended
pub mod Fronts
