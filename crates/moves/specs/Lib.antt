pub mod Moves
pub mod Program
