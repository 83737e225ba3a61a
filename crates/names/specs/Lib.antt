pub mod Names
pub mod Program
