pub mod Bounds
pub mod Listings
