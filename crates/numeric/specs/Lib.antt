pub mod Parts
pub mod Numeric
