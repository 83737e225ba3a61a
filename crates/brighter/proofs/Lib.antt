pub mod Numbers
pub mod Ranges
pub mod Text
pub mod Steps
pub mod Crate
pub mod Laws
