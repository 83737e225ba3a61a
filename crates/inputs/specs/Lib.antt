pub mod Runs
pub mod Turns
