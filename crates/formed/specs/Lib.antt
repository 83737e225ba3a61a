pub mod Answers
pub mod Casts
