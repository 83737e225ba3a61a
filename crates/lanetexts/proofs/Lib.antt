pub mod Digits
pub mod LanePuts
