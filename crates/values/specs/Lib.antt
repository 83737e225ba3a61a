pub mod Value
pub mod Program
