pub mod Shaped
pub mod Converse
pub mod Passed
pub mod Matrices
pub mod CallWords
pub mod Firsts
