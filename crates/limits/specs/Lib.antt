pub mod Limits
pub mod Program
