pub mod Answers
pub mod Program
