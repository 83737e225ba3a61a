pub mod Lanes
pub mod Program
