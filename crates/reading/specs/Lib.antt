pub mod Into
pub mod Program
