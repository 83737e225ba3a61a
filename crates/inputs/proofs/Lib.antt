pub mod Stream
pub mod Steps
pub mod Looped
pub mod Turned
pub mod Inputs
