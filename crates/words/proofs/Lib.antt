pub mod There
pub mod Kept
