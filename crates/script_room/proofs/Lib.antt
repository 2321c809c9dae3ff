pub mod Fits
pub mod Pieces
