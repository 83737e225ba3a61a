pub mod Unpacked
pub mod Halving
pub mod Reached
