pub mod Puts
pub mod Answers
pub mod Parts
pub mod Steps
