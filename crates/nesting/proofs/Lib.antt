pub mod Words
pub mod Fuel
pub mod Complete
pub mod Sound
pub mod Heads
pub mod Pass
pub mod Steps
