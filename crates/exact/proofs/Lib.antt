pub mod Floor
pub mod Magnitudes
pub mod Codes
pub mod Trip
